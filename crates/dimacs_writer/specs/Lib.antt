-- What the contracts of the writer's parts cite.
pub mod Writer
