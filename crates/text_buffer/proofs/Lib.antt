pub mod TextBufferLemmas
