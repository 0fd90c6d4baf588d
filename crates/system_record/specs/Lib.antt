pub mod SystemRecord
