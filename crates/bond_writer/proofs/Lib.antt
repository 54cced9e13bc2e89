pub mod BondSplices
pub mod CellBonds
pub mod Splices
