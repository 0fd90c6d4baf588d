pub mod Laws
mod EventLaws
mod RecordLaws
mod WordLaws
mod NumberLaws
mod PairLaws
