-- The three demands of the request. Read Demands.antt: each demand is one statement. Then RequestE1 to RequestE12: document 02's requests.
-- Stars has the starred cases of document 01. DecoderTable: the decoder's rows in the order of document 01's table.
pub mod DecoderTable
pub mod Demands
pub mod RequestE1
pub mod RequestE2
pub mod RequestE3
pub mod RequestE4
pub mod RequestE5
pub mod RequestE6
pub mod RequestE7
pub mod RequestE8
pub mod RequestE9
pub mod RequestE10
pub mod RequestE11
pub mod RequestE12
pub mod Stars
