pub mod SaidFront
pub mod SaidMore
pub mod SayingLaws
