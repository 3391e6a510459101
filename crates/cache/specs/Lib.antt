-- What the cache holds and what each change does to every cell.
pub mod Cache
