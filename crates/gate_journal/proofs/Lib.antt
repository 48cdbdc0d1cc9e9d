pub mod SlotLemmas
pub mod RestLemmas
pub mod RecordLemmas
pub mod StateLemmas
