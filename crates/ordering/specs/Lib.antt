-- Lists of steps: the ordering claim about them, its proof, and worked examples of it. Paper 01, "Lists of steps".
pub mod Claim
pub mod Numbered
pub mod Laws
pub mod Worked
