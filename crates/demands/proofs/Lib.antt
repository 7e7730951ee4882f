-- Read Demands.antt, the three demands, RequestE1.antt to RequestE12.antt, document 02's requests, and Stars.antt, the starred cases: short proofs that
-- cite the theories and solver.
pub mod Demands
pub mod RequestE1
pub mod RequestE2
pub mod RequestE3
pub mod RequestE4
pub mod RequestE5
pub mod RequestE6
pub mod RequestE7
pub mod RequestE8
pub mod RequestE9
pub mod RequestE10
pub mod TallyCases
pub mod RequestE11
pub mod RequestE12
pub mod Stars
pub mod DecoderTable
