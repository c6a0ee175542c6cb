mod bytes
mod cutting
mod deciding
mod rows
mod stepping
mod Words
