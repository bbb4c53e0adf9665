pub mod Appended
pub mod Cases
mod WorkedFiles
mod WorkedAnswers
mod WorkedJoins
mod WorkedNeeds
mod WorkedEnds
mod WorkedLists
mod WorkedWords
mod WorkedKinds
