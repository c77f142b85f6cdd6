pub mod Window
pub mod WindowSettles
