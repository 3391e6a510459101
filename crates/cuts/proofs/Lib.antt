-- Laws of the choices at a cut: their images, that all recover to the same cells; and of what is printed for a listing.
pub mod EvictedImage
pub mod AlikeLaws
pub mod CutsLaws
