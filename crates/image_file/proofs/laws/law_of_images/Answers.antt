use Rattle.image_file.proofs.BothWays.{image_is_read, read_is_image}
use Rattle.image_file.proofs.laws.law_of_images.Goals as goal

pub returns-clause-read : goal.returns-clause-read
returns-clause-read c = image_is_read

pub returns-clause-image : goal.returns-clause-image
returns-clause-image c = read_is_image
