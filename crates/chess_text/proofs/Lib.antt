mod forms
mod keys
mod names
mod positions
mod rows
mod Words
