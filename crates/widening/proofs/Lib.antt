pub mod PairLaws
pub mod WidenLaws
pub mod BeyondLaws
pub mod FewLaws
