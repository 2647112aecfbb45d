mod Tallies
mod Firsts
mod Made
mod Columns
mod NumberedColumns
