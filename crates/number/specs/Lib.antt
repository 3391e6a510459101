-- Numbers in decimal, as a listing writes them.
pub mod Decimal
