pub mod AtMostTwelveCells  -- the grids that are enumerated
