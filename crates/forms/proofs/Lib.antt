pub mod SeparatedLemmas
