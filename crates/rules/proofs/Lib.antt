pub mod Recent
pub mod Walk
pub mod ReadersLaws
pub mod AmountLaws
pub mod RuleLaws
