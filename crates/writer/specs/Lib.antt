-- What the writer of a log's stretch leaves of a lent part and of an image.
pub mod Written
