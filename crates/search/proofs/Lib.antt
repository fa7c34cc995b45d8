pub mod RisingLaws
pub mod ParityLaws
pub mod ToldLaws
