mod Adding
mod PanesFrom
mod Coming
