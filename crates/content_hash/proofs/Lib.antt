pub mod BlockLemmas
pub mod TakenLemmas
