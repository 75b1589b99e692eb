-- What a word of four numbers is; `quad` is to be believed, since the words of a watch's table are made by it.
pub mod Words
pub mod Rows
