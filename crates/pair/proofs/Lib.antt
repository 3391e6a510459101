-- Laws of the test of one pair.
pub mod PairLaws
