mod Limits
mod ManyRuns
mod Names
mod OneFile
mod OneList
mod Parts
mod Runs
mod Said
