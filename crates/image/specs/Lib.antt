-- An image, over the reader's definitions alone: its four logs, the tests of an image, and what the code reads of one and answers.
pub mod Stored
pub mod Tests
pub mod Reading
