-- LSNs and slots. Nothing here names a thread.
pub mod Ring
