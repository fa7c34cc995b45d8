pub mod CodeLaws
pub mod ReturnLaws
pub mod PageLaws
pub mod PublishLaws
pub mod RepairLaws
