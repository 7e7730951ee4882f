-- Laws of the search in code. Budget: the loop. Calls: the whole call. OneToOne: the outcome tells the answers apart.
pub mod Budget
pub mod Calls
pub mod OneToOne
