pub mod DecimalLemmas
pub mod RowsLemmas
