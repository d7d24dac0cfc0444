pub mod SendsMet
pub mod CountiesMet
pub mod SharesMet
