pub mod MadeLaws
pub mod RefusalLaws
pub mod RulesLaws
