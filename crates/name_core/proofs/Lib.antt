mod ChunkLemmas
mod KeyLemmas
mod LengthLemmas
mod ListLemmas
mod Missed
mod PieceLemmas
mod PrefixLemmas
mod SideLemmas
