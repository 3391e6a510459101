-- An image that the code has tested can be read.
use Rattle.image.specs.Reading.{Headed, Readable}
use Rattle.image.specs.declared.HeadedImage.{HeadedImage}
use Rattle.image.specs.declared.TestedImage.{TestedImage}

pub is_headed : (image : HeadedImage) → Headed image.words.now
is_headed image = record { words = image.long; heads = image.heads }

pub is_readable : (image : TestedImage) → Readable image.headed.words.now
is_readable image = record { headed = is_headed image.headed; good = image.good }
