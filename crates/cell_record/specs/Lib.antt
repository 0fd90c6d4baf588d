pub mod CellRecord
pub mod SharedCode
