pub mod Stages
pub mod Works
pub mod WorkLaws
pub mod Gives
