-- The numbers of the statuses.
use Rattle.std.specs.Prelude.{ℕ}
use Rattle.rw_app.specs.declared.status.Status.{Status}
use Rattle.rw_app.specs.declared.status.Status.TheVariants.{Done, BadWords, Refused, Spent, Failed, NoMemory, ReadFault, WriteFault, TooLong}

-- the number that the program ends with
abbrev pub number_of_status : Status → ℕ
number_of_status Done = 0
number_of_status BadWords = 2
number_of_status (Refused fault) = 3
number_of_status Spent = 4
number_of_status Failed = 5
number_of_status NoMemory = 6
number_of_status ReadFault = 7
number_of_status WriteFault = 8
number_of_status TooLong = 9
