-- How the bytes that a reader gave make up those that it had.
mod Consuming
