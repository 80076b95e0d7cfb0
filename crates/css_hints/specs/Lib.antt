pub mod HintLine
