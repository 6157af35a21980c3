pub use Rattle.hv_stands as hv_stands
pub use Rattle.hv_table_rows as hv_table_rows
pub use Rattle.hv_law_partitions as hv_law_partitions
pub mod Directories
pub mod Laws
pub mod Reading
pub mod Worked
