-- How a disk is read.
pub use Rattle.disk_walk.specs.Reading.{Reads}
