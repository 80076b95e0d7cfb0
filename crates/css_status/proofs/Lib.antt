pub mod OverLines
