pub use Rattle.choosing.specs.Choosing
