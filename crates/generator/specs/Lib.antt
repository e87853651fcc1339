-- Paper 02, change 1, as definitions: the generator, the log that it makes from one number, and what a maker of such logs answers.
pub mod Answer
pub mod Laws
pub mod Records
pub mod Worked
