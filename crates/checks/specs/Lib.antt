pub use Rattle.surveys.specs.Surveyed
