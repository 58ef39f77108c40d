mod Borrowing
