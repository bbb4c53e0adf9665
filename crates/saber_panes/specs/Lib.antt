pub mod Panes
pub mod PaneLaws
