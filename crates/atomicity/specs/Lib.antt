-- What is claimed of the machine and its recovery: the history of a run, what happens before, races, demand 3.
pub mod History
pub mod HappensBefore
pub mod Races
pub mod Demand3
pub mod AnyOrder
pub mod Undoes
