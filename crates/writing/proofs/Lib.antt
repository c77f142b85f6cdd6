mod Fronts
mod Rows
