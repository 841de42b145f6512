mod Flags
mod Lists
mod Rows
