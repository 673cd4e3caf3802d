-- Document 01, "The sixteen refusals": each case's number. Table.antt has the table, and the promises name a refusal by this number.
use Rattle.terms.specs.Common.{ℕ}
use Rattle.refusals.specs.declared.Refusal.{Refusal}
use Rattle.refusals.specs.declared.Refusal.TheVariants.{BadParameter, AddressUndefined, ParameterUndefined, CannotExecute, NumberNotFound, NestOver, TableOver, DuplicateNumber, LeavesTravel, NoRoom, FirstBlock, BadSetup, DataTooLong, NoEnd, Unreadable, CentreTooFar}

abbrev pub number_of : Refusal → ℕ
number_of BadParameter = 1
number_of AddressUndefined = 2
number_of ParameterUndefined = 3
number_of CannotExecute = 4
number_of NumberNotFound = 5
number_of NestOver = 6
number_of TableOver = 7
number_of DuplicateNumber = 8
number_of LeavesTravel = 9
number_of NoRoom = 10
number_of FirstBlock = 11
number_of BadSetup = 12
number_of DataTooLong = 13
number_of NoEnd = 14
number_of Unreadable = 15
number_of CentreTooFar = 16
