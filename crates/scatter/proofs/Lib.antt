pub mod BlockLaws
pub mod ConditionLaws
pub mod ExchangeLaws
pub mod PartLaws
pub mod PlaceLaws
pub mod ScatterTheorem
pub mod WorkedBlocks
