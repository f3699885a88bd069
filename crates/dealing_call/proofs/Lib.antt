-- What the dealing call's steps ask, write and answer.
mod Written
mod Turns
mod Deals
